pub mod Indices
pub mod TableLemmas
pub mod ObjectLemmas
pub mod HeapLemmas
pub mod NoteLemmas
