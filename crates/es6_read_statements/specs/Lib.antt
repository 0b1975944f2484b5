pub mod Variables
pub mod Enclosed
