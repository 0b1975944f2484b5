pub mod Sites
pub mod Stands
