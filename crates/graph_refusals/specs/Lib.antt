pub mod Lines
pub mod Quoted
