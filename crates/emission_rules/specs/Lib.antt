pub mod Emission
pub mod Expressions
pub mod Functions
pub mod Naming
pub mod Nodes
pub mod Primitives
pub mod Scenes
pub mod Slots
