pub mod Same
pub mod Comparing
pub mod Telling
