pub mod Lexing
pub mod Runs
pub mod Spans
pub mod Steps
pub mod Unique
pub mod Within
