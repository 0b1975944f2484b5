pub mod Arrows
pub mod Branches
pub mod Levels
pub mod Sequences
pub mod Waits
