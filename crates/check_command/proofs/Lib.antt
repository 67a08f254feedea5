pub mod CheckLemmas
pub mod CheckOnceLemmas
pub mod CheckWordLemmas
pub mod CheckEndLemmas
pub mod OptionLemmas
pub mod ReadingLemmas
pub mod EngineLemmas
