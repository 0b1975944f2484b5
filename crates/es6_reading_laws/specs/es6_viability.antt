pub mod Alive
pub mod Spelled
pub mod Fronts
pub mod TooDeep
