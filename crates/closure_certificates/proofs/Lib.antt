pub mod ClosureLemmas
pub mod RowLemmas
pub mod EntryLemmas
pub mod LineReadings
pub mod ClosureEdges
pub mod OrderLines
pub mod LawProofs
