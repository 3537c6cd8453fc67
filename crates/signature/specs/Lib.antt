-- What the reading of a signature list is asked and what it ensures.
pub mod Listing
