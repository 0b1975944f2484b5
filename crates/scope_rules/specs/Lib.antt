pub mod scope_tables
pub mod Marks
