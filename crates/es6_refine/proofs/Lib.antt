pub mod Fitted
pub mod ParameterLists
