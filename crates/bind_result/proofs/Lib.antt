-- Laws of a Bind's type, one for each step of the code.
pub mod Results
