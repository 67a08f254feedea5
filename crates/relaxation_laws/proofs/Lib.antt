pub mod SamePlayLemmas
pub mod ShownStrategyLemmas
pub mod RelaxationLemmas
pub mod EditLemmas
