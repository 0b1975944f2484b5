pub mod Table
pub mod Text
pub mod Wanted
pub mod Definitions
