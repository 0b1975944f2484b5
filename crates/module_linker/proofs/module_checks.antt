pub mod Determined
pub mod Placed
pub mod Refused
