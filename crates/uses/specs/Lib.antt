-- The count of a term's free variables, as a call: what it should answer, and its sentences by literals.
pub mod Uses
pub mod Demands
pub mod Guards
