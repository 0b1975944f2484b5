pub mod Endings
pub mod Held
pub mod Joins
pub mod Numbered
pub mod Starts
