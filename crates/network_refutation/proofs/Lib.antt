pub mod RoundsLemmas
