pub mod MarkLemmas
pub mod RestLemmas
pub mod NumberLemmas
pub mod PlaceLemmas
pub mod PlainLemmas
pub mod RowLemmas
pub mod FoundLemmas
