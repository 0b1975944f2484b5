pub mod Cases
pub mod Scopes
pub mod Variables
