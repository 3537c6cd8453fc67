-- The code of a node's type meets its contract.
pub mod Results
pub mod Formings
