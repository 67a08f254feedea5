pub mod ClosureLemmas
pub mod OrderLemmas
pub mod ForwardLemmas
pub mod CoverLemmas
