-- Laws for each step of the code.
pub mod Clears
pub mod Scopes
pub mod Places
pub mod Writes
pub mod Calls
