pub mod Between
pub mod Series
pub mod SeriesGrammar
