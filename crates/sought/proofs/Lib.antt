-- Laws of a statement sought.
pub mod ItemTells
