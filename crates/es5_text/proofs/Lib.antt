pub mod Accepted
pub mod Answered
pub mod Aside
pub mod Directive
pub mod Inside
pub mod LastToken
pub mod Parsed
pub mod Programs
