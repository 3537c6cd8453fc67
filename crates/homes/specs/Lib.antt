-- The writing step of an extract, what its form and its output should be, and its sentences by literals.
pub mod Homes
pub mod Right
pub mod Guards
