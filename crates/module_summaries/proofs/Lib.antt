pub mod Growing
pub mod Looking
pub mod Maps
pub mod Summing
