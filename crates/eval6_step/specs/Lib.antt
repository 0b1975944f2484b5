pub mod Stages
pub mod Runs
