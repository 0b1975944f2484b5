pub mod Exports
pub mod Items
pub mod Parts
