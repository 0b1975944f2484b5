pub mod Arrays
pub mod Functions
pub mod Iterators
pub mod Search
pub mod Strings
