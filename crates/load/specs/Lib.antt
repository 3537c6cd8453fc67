-- A load of trial requests. A reader reads these modules in this order.
pub mod Load
pub mod Refuses
pub mod Passes
pub mod Answers
pub mod Guards
