pub mod StrongAnswers
