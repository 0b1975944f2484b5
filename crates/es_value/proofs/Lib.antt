pub mod Powers
pub mod Texts
