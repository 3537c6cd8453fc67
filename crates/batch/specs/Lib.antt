-- What a batch answers and leaves.
pub mod Answers
