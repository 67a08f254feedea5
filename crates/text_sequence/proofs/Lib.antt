pub mod SeriesLemmas
