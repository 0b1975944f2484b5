pub mod Accepted
pub mod Directive
pub mod Faults
pub mod Parsed
pub mod Answer
pub mod Read
pub mod Tie
