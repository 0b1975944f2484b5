pub mod Inside
pub mod Levels
pub mod Links
pub mod ListTurns
pub mod Primaries
