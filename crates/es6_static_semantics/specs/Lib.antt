pub mod Findings
pub mod Early
pub mod Outside
pub mod Endings
pub mod Graphs
