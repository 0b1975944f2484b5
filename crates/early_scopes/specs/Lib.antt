pub mod Rules
pub mod Since
pub mod Tried
