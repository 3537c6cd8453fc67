-- What check hands back.
pub mod Answers
