-- What the code that converts terms is asked and what it ensures.
pub mod Answers
