pub mod Entered
pub mod Labels
pub mod Switched
pub mod Variables
