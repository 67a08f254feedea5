pub mod JudgeLemmas
pub mod JudgeWordLemmas
pub mod JudgeEndLemmas
