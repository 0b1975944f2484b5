pub mod Calls
pub mod Properties
pub mod Making
pub mod Steps
