pub mod Written
pub mod Entry
pub mod Laws
pub mod Linked
pub mod OneReading
pub mod Ran
pub mod Told
