pub mod Asking
pub mod Due
pub mod Outcomes
pub mod Sampling
