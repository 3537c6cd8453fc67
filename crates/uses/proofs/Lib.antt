-- The demands of the call, the steps of its code, and its guards.
pub mod Demands
pub mod Steps
pub mod Guards
