pub mod Inside
pub mod Hosts
pub mod Ready
