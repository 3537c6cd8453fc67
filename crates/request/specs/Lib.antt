-- What a request is asked, answers and leaves.
pub mod Requested
