-- The tests of the items in turn.
pub mod TestsInTurn
