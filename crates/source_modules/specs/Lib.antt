pub mod Bindings
pub mod Found
pub mod Importing
pub mod Instances
pub mod Ones
