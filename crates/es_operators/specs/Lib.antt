pub mod Primitives
pub mod Operators
pub mod Conversions
pub mod Functions
pub mod Seen
