pub mod es6_module
pub mod Faults
pub mod Limits
pub mod Parsed
pub mod Tie
