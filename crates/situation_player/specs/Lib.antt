pub mod Numbered
pub mod PlayedDays
pub mod Generator
pub mod Tasks
pub mod ForgedParts
pub mod Laws
