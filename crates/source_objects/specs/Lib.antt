pub mod Definitions
pub mod Inherited
pub mod Made
