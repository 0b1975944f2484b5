pub mod Elements
pub mod Lexes
pub mod Numbers
pub mod Punctuators
pub mod Quoted
pub mod Tokens
