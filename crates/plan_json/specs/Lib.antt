pub mod Document
pub mod DocumentGrammar
pub mod DocumentReading
pub mod Words
pub mod DocumentText
