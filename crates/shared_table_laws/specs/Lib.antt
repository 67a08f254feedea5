pub mod TableHistory
pub mod NodeRules
pub mod LaterNodes
