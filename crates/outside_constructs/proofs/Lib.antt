pub mod ArgumentNames
pub mod First
pub mod Layers
pub mod Scoped
pub mod Walking
