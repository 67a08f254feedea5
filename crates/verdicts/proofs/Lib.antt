pub mod DecisionLemmas
pub mod VerdictLemmas
pub mod RefutationLemmas
