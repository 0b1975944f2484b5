pub mod Files
pub mod Loading
pub mod Reading
pub mod Requests
pub mod States
pub mod Supplying
