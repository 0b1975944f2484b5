pub mod Operations
pub mod Asks
