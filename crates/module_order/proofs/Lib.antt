pub mod Gets
pub mod Marks
pub mod Unwound
pub mod Walks
