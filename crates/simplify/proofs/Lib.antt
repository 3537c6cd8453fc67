-- Laws of simplifying on words: what a turn gives, a turn of the loop, and the call, test by test.
pub mod Taking
pub mod Turns
pub mod Calls
