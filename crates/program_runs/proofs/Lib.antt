pub mod Courses
pub mod Endings
pub mod HostLists
pub mod Positions
pub mod Talking
