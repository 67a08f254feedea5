pub mod Decisions
pub mod Verdict
