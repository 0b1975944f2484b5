pub mod Classes
pub mod Keys
pub mod Tables
pub mod Objects
pub mod Heaps
