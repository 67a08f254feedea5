pub mod FormFaults
pub mod SectionedTexts
pub mod Reading
pub mod Spellings
pub mod LawfulTexts
