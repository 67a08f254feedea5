pub mod StrongAnswerLemmas
pub mod TimesLemmas
pub mod KeepLemmas
