pub mod Targets
pub mod Valid
pub mod Zips
