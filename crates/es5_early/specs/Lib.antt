pub mod Counts
pub mod Pairs
pub mod Parts
pub mod Properties
pub mod Rounds
