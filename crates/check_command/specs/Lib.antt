pub mod Engines
pub mod CheckAnswers
pub mod CheckPromise
pub mod Words
pub mod EngineLaw
