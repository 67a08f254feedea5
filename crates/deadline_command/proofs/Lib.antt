pub mod PointLemmas
pub mod GrammarLemmas
pub mod OneAnswerLemmas
pub mod SaidLemmas
pub mod DeadlineAnswerLemmas
pub mod DeadlineWordLemmas
