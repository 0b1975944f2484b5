pub mod Told
pub mod States
pub mod StatesBefore
pub mod Laws
