pub mod Pieces
pub mod Layout
pub mod Sites
pub mod Printed
