-- What simplifying is asked and what it ensures.
pub mod Turn
pub mod Answers
