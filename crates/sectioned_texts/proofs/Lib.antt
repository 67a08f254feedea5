pub mod FirstWordLemmas
pub mod LineLemmas
pub mod ReadingLemmas
pub mod SpelledTexts
pub mod SpellingLemmas
