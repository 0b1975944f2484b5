pub mod Branches
pub mod Levels
pub mod Powers
pub mod Waits
pub mod Yields
