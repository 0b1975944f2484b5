pub mod TriedObjects
pub mod TriedReferences
