pub mod Lengths
pub mod Scopes
pub mod Stacks
pub mod UserLists
