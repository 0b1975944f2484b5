pub mod Contents
pub mod Laws
pub mod Placed
pub mod Ran
pub mod Refused
