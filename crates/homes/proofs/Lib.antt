-- The tests of the form, the pass over list and table, what it writes, and the guards.
pub mod Forms
pub mod Joins
pub mod Walks
pub mod Outputs
pub mod InForm
pub mod Guards
