pub mod Kept
pub mod LawKept
pub mod Laws
pub mod Levels
pub mod Marks
pub mod Operations
