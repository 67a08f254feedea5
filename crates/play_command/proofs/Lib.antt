pub mod PlayLemmas
pub mod PlayWordLemmas
pub mod ForgeLemmas
pub mod ForgeWordLemmas
pub mod PlayEndLemmas
