pub mod Accessors
pub mod Classes
pub mod Handed
pub mod Patterns
pub mod Signatures
