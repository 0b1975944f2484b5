pub mod Layers
pub mod None
pub mod Passing
pub mod Tables
