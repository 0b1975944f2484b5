pub mod Counted
pub mod Gathering
pub mod Laws
pub mod Looking
pub mod Turns
pub mod Wants
