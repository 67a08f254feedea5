pub mod NetworkLemmas
pub mod PlanLemmas
pub mod DocumentLemmas
pub mod PlanInputLemmas
pub mod SectionLemmas
pub mod ProofLemmas
