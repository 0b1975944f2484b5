pub mod Counts
pub mod Meanings
pub mod Requests
pub mod Spaces
pub mod Wanted
