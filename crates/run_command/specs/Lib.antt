pub mod RunCommand
pub mod RunPromise
pub mod Words
pub mod OrderedTexts
pub mod NamedDays
