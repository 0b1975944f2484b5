pub mod Lookup
pub mod Scopes
