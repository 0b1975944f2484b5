pub mod Building
pub mod Files
pub mod Keeping
pub mod Opening
pub mod Shelves
