pub mod Collecting
pub mod Templates
