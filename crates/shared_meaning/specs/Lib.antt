pub mod Addition
pub mod Ending
