pub mod ReadEdges
pub mod Histories
pub mod RoundHistories
pub mod NodeRules
pub mod NodeSteps
pub mod StaleReads
pub mod SettledRounds
pub mod LaterNodes
