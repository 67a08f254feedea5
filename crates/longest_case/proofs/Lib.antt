pub mod LoopLemmas
pub mod LongestLemmas
