pub mod Layers
pub mod SymbolLaws
