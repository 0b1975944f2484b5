pub mod Numbered
pub mod Scoping
