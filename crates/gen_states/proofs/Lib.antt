pub mod Arms
pub mod Kept
pub mod Lists
