-- Laws of moved words, one for each step of the code.
pub mod Cases
pub mod Shifts
pub mod Fills
