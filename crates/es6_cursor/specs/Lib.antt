pub mod Nested
pub mod Reads
pub mod Takes
pub mod Keys
pub mod Tables
pub mod Readers
pub mod Groups
pub mod Nests
