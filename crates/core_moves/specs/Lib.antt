pub mod Elements
pub mod Moves
pub mod Names
pub mod Values
