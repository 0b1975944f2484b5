pub mod Checks
pub mod Lawful
pub mod Made
pub mod Mentions
pub mod Names
pub mod Walks
