-- What the program's tests tell.
pub mod Tested
