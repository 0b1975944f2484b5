pub mod graph_checks
pub mod module_checks
pub mod Checking
pub mod Linking
pub mod Loading
pub mod Reading
pub mod Rebuilding
