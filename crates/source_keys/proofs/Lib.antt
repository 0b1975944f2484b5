pub mod FoundKeys
pub mod Lengths
pub mod Units
