pub mod DecisionLemmas
pub mod SearchLemmas
pub mod RowLemmas
pub mod SaturationLemmas
