pub mod Errors
pub mod Fifth
pub mod Objects
