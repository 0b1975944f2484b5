pub mod Generators
pub mod Seen
