pub mod Pieces
pub mod Suffix
pub mod Script
