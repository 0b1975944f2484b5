pub mod Layers
pub mod Rounds
