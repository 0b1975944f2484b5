pub mod Composed
pub mod Groups
pub mod Links
pub mod Lists
pub mod Properties
