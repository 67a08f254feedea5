pub mod JudgeAnswers
pub mod JudgeInput
pub mod JudgePromise
pub mod Words
