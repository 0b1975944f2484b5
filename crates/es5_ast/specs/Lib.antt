pub mod Lexical
pub mod Grammar
pub mod Early
pub mod Script
pub mod Within
pub mod Depth
pub mod Dead
pub mod Bare
