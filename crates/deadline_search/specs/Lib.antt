pub mod Goals
pub mod Deadlines
pub mod Answers
pub mod Trials
