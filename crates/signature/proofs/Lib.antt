-- A signature list is read as its definition says.
pub mod Listings
pub mod Accepted
pub mod Permits
