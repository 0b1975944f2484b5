pub mod Names
pub mod Spelling
pub mod WellFormed
pub mod Modules
pub mod Lexing
pub mod Reading
pub mod Faults
