mod Characters
mod Escaped
mod Gaps
pub mod Lexed
mod Marks
mod Numbers
mod Quoted
mod Unique
