-- The extract desk, what the first two demands say of it, lists of calls that have extracts among them, and its
-- sentences by examples.
pub mod Extract
pub mod Demands
pub mod Desk
pub mod Guards
