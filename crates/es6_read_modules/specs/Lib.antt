pub mod Exports
pub mod Listed
