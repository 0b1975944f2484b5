pub mod Handlers
pub mod Jumps
pub mod Kinds
pub mod Loops
pub mod Nodes
pub mod Scopes
