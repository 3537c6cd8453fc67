-- Laws of the buckets, one for each step of the code.
pub mod Buckets
