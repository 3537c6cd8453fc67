-- The outcomes that are printed, what the program prints of any two files, and the guards.
pub mod Prints
pub mod Right
pub mod Guards
