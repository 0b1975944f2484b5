pub mod Parts
pub mod Printable
pub mod Laws
