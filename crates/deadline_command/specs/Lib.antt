pub mod Points
pub mod DeadlineAnswers
pub mod DeadlinePromise
pub mod Words
