-- What the search for a record is asked.
pub mod Read
