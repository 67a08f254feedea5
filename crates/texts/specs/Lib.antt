pub mod Limits
pub mod Words
pub mod Lines
pub mod PrintedLines
