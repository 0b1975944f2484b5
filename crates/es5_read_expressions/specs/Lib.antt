pub mod Levels
pub mod Links
pub mod Primaries
