pub mod ShowLemmas
pub mod ShowWordLemmas
