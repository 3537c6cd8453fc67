-- Laws of the search for a term's Signs, one for each step of the code.
pub mod Receipts
pub mod Scans
