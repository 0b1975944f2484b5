pub mod BodyVars
pub mod Counting
pub mod Names
pub mod Reached
pub mod Texts
