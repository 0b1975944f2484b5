pub mod Alike
pub mod Faults
pub mod Reading
