mod Contents
pub mod Laws
mod TakenFiles
