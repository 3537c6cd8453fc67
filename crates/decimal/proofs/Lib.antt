-- The digits of a number, bytes put one after the other, and the guards.
pub mod Digits
pub mod Puts
pub mod Guards
