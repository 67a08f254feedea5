pub mod DrawLemmas
pub mod StepLemmas
pub mod RuleLemmas
pub mod TableLemmas
