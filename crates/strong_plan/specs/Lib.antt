pub mod Strong
pub mod Chains
pub mod ReducedEdges
pub mod Numbers
pub mod Judgement
pub mod Answers
pub mod Laws
