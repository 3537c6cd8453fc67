-- What the code that takes a step is asked and what it ensures, by the definitions of `reduction`.
pub mod Redex
pub mod Step
