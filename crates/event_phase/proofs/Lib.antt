pub mod CompletionOrderLemmas
pub mod CauseLemmas
pub mod FeedAnswerLemmas
pub mod ExecutionStartLemmas
pub mod ReplyLemmas
pub mod OnceLemmas
pub mod EventLemmas
pub mod EventRunLemmas
pub mod DueLemmas
pub mod DayLemmas
pub mod StatedLemmas
pub mod ExecutionLemmas
mod SizeLemmas
