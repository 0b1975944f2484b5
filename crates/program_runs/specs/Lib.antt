pub mod Around
pub mod Outcomes
pub mod Positions
pub mod Talks
pub mod Turns
