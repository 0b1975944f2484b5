pub mod Grammar
pub mod Literals
pub mod Tokens
