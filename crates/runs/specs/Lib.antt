pub mod Run
pub mod Same
pub mod Clauses
pub mod Simulation
pub mod Standing
pub mod Laws
