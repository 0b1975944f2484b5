pub mod Objects
pub mod Takings
pub mod Units
