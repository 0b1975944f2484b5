pub mod Keys
pub mod Searching
