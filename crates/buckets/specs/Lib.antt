-- What buckets hold, whatever was entered: places of rules and says.
pub mod Buckets
