pub mod PlayedSituation
pub mod PlayCommand
pub mod PlayPromise
pub mod ForgeCommand
pub mod Words
