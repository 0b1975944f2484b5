pub mod FileLemmas
pub mod HostNameLemmas
pub mod NameLemmas
pub mod SinkLemmas
