pub mod Builds
pub mod Checks
pub mod Runs
pub mod Telling
