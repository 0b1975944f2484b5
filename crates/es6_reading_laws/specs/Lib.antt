pub mod es6_outside_laws
pub mod es6_viability
pub mod Breaks
pub mod Fronts
