pub mod Flows
pub mod Steps
