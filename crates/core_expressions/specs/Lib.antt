pub mod Links
pub mod Objects
pub mod Texts
