pub mod Relaxations
pub mod DelayedStrategies
pub mod Laws
