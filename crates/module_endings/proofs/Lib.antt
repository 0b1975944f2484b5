pub mod Covering
pub mod Gets
pub mod Growing
pub mod Linking
pub mod Placing
pub mod Reaching
pub mod Sourcing
