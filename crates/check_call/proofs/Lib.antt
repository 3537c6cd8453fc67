-- The call meets its contract.
pub mod Checks
