pub mod Bodies
pub mod Members
pub mod Parts
pub mod Taken
