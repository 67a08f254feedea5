pub mod ShowAnswers
pub mod Words
