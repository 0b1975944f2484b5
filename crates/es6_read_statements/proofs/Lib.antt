pub mod Follows
pub mod FurtherOut
pub mod Alternatives
pub mod CaseLists
pub mod Enclosed
pub mod OtherWords
pub mod VariableLists
