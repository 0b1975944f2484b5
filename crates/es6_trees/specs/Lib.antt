pub mod Built
pub mod Made
pub mod Refines
pub mod Refining
pub mod Split
