-- Laws of rule lists, one for each step of the code.
pub mod RuleList
pub mod Writes
