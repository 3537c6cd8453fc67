-- What a host program in C gets.
pub mod Answers
pub mod Paper
