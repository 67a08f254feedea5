pub mod Longest
pub mod Loops
