pub mod DispatchFacts
pub mod ListFacts
pub mod TimeFacts
