pub mod TargetLaws
pub mod TriedArrow
pub mod TriedClass
pub mod TriedTemplate
pub mod TriedImport
pub mod TriedForOf
pub mod TriedInserted
