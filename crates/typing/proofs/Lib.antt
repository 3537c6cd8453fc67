-- The check in a lent workspace is right.
pub mod Tails
pub mod Uniform
pub mod Derives
pub mod Checks
pub mod Statements
