pub mod NameLemmas
pub mod CountLemmas
pub mod GrammarLemmas
pub mod ReadLineLemmas
