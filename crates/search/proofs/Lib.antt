-- Laws of the search, one for each step of the code.
pub mod Search
