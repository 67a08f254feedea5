pub mod NamedDayLemmas
pub mod RunLemmas
pub mod RunOnceLemmas
pub mod RunEndLemmas
pub mod RunWordLemmas
pub mod FollowLemmas
pub mod AlikeLemmas
pub mod OrderLemmas
