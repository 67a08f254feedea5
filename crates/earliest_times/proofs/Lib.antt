pub mod RoundLemmas
pub mod HistoryLemmas
pub mod TraceLemmas
pub mod LeastLemmas
pub mod TurnLemmas
pub mod ShortestWalkLemmas
pub mod FirstLoopLemmas
