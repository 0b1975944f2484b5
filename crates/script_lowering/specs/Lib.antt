pub mod Reading
pub mod Expressions
pub mod Statements
pub mod Nodes
pub mod Scripts
pub mod Gathering
pub mod Makers
