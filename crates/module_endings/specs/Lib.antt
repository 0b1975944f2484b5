pub mod Ends
pub mod Indexes
pub mod Places
pub mod Webs
