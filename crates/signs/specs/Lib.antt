-- What the search for a term's Signs is asked, and answers.
pub mod Answers
