pub mod Outcome
pub mod Digits
pub mod Segments
pub mod Document
pub mod Line
pub mod Maps
pub mod Written
