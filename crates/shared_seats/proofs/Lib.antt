pub mod StandingLemmas
pub mod NotedLemmas
pub mod StepLemmas
