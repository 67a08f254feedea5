pub mod CountedText
pub mod Document
pub mod Tally
pub mod TallyCommand
