-- Laws of records in words, one for each step of the code.
pub mod Items
pub mod Walks
