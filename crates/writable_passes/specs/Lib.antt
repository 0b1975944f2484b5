pub mod Rooms
pub mod Drawn
pub mod Laws
pub mod Ready
