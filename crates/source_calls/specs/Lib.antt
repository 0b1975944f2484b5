pub mod Constructions
pub mod Resumptions
pub mod Saved
pub mod Yields
