pub mod Chains
pub mod Receivers
