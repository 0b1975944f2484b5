pub mod Replies
pub mod SlowRooms
pub mod SureRooms
pub mod SureStores
