pub mod NamedLineLemmas
pub mod ProjectionLemmas
pub mod AloneLemmas
pub mod SingleLemmas
pub mod StartLemmas
