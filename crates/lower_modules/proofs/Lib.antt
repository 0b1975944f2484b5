pub mod Defaults
pub mod Hoisting
pub mod Laws
