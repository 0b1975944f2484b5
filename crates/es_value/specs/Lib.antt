pub mod Arithmetic
pub mod Bits
pub mod Convert
pub mod Equality
