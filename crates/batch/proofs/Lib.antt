-- The grants of the items in turn, and what a batch leaves.
pub mod GrantsInTurn
