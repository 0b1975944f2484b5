pub mod Instance
pub mod Counts
pub mod ScopesKept
