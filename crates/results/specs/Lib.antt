-- What the code of a node's type is asked.
pub mod Results
