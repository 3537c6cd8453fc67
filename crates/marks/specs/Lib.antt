-- What the mark calls answer and leave.
pub mod Answers
