pub mod Gathered
pub mod Sums
pub mod Turns
