-- What is proved of loads.
pub mod Draws
pub mod Writes
pub mod Refuses
pub mod Passes
pub mod Guards
