-- What the code on a rule list is asked.
pub mod Rules
