pub mod Building
pub mod Edits
pub mod Reading
