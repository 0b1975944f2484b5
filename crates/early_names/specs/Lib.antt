pub mod Directives
pub mod Indexes
pub mod Misfits
