pub mod InRound
pub mod Expressions
pub mod Statements
pub mod Operators
pub mod Patterns
pub mod References
pub mod Classes
pub mod Bodies
