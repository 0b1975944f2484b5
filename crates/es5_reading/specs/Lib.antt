pub mod Parser
pub mod Expressions
pub mod Statements
pub mod Programs
pub mod Laws
pub mod Examples
