pub mod Bodies
pub mod Classes
pub mod Insides
pub mod Parameters
pub mod Pieces
