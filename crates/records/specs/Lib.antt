-- What the code on records is asked, answers and writes, by the definitions of `register`.
pub mod Items
pub mod Kinds
pub mod Entries
pub mod Answers
