pub mod SessionLemmas
pub mod OneWay
pub mod Broken
