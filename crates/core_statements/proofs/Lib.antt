pub mod Parameters
pub mod Switched
