-- What a proof of the form derives, and when it is granted.
pub mod Granted
