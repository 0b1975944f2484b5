pub mod Turning
pub mod Properties
pub mod Operators
pub mod Iteration
pub mod Functions
pub mod Numbers
pub mod Steps
pub mod Making
