-- Simplified proofs. A reader reads these modules in this order.
pub mod Steps
pub mod Simplify
pub mod Call
pub mod Refuses
pub mod Laws
pub mod Guards
