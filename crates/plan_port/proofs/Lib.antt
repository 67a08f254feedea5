pub mod Talks
pub mod Windows
pub mod FirstLines
pub mod Readings
pub mod ReaderAnswers
