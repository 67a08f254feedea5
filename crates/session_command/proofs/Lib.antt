pub mod SessionEndLemmas
pub mod SessionOnceLemmas
pub mod SessionLines
pub mod SessionLemmas
pub mod EditingLemmas
pub mod DecidedLemmas
