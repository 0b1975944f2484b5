pub mod lower_names
pub mod Handed
pub mod Keys
