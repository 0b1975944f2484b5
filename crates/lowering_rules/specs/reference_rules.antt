pub mod Drawing
pub mod Objects
pub mod References
