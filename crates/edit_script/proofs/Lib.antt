pub mod StatedLineLemmas
pub mod FaultLemmas
