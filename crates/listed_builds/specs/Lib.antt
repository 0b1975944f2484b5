pub mod Doing
pub mod Lends
pub mod Texts
