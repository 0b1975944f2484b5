pub mod EditedFiles
pub mod Edits
