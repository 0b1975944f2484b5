pub mod Walk
pub mod Marked
