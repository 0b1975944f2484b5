pub mod Endings
pub mod Groups
pub mod Nests
pub mod Readers
pub mod Reads
pub mod Takes
pub mod Tables
