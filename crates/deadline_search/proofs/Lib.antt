pub mod DistanceLemmas
pub mod GoalLemmas
pub mod NameLemmas
pub mod SearchLemmas
pub mod AnswerLemmas
