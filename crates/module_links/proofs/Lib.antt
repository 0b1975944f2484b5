pub mod Alike
pub mod Lists
pub mod Resolved
pub mod Shared
pub mod Summed
