pub mod Simulated
pub mod Composed
pub mod Monotone
pub mod Mapped
pub mod Machines
pub mod Stands
pub mod Clauses
