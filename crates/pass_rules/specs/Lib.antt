pub mod pass_laws
pub mod state_rules
pub mod yield_rules
pub mod Cells
pub mod Scopes
