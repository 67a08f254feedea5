pub mod NamedLines
pub mod Merged
pub mod Alone
pub mod Projection
pub mod Runs
pub mod Starts
