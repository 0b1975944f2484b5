pub mod InstanceLemmas
pub mod PrimLemmas
pub mod SeenLemmas
