pub mod Arguments
pub mod ClapRules
pub mod ArgumentReading
pub mod SpelledWords
pub mod Syntax
