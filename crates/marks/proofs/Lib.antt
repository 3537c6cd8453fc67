-- The calls meet their contracts.
pub mod MarkAnswers
