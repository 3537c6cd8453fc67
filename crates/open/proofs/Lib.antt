-- The call meets its contract.
pub mod Openings
pub mod RuleTests
pub mod Opens
