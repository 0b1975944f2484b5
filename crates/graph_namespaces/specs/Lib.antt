pub mod Asked
pub mod Entries
