-- What the tests of a batch are asked, and answer.
pub mod Answers
