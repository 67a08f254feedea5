pub mod CopyLemmas
pub mod DenseLemmas
pub mod ConsequenceLemmas
pub mod ProgressLemmas
pub mod ShareLemmas
pub mod VerdictLemmas
pub mod PartialClosureLemmas
pub mod RowTestLemmas
