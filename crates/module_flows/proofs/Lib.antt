pub mod Gets
pub mod Joins
pub mod Spread
pub mod Kept
