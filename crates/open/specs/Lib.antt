-- What an open answers and leaves.
pub mod Opened
