pub mod Entries
pub mod Graphs
