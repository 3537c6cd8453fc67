-- Laws of the answers that a host program gets.
pub mod Codes
pub mod Paper
pub mod Starts
