pub mod Cases
pub mod Entered
