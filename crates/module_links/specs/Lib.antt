pub mod Links
pub mod Zips
