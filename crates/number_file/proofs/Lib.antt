-- The reader a byte at a time, the files that it reads, and numbers put one after the other.
pub mod Reader
pub mod Grammar
pub mod Fields
