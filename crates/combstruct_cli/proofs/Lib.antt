pub mod AnswerLemmas
pub mod InputLemmas
pub mod PieceLemmas
pub mod ReadingLemmas
pub mod RunLemmas
pub mod StepLemmas
pub mod Unique
