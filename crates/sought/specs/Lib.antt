-- What is known of a statement sought, by the statements of a list.
pub mod Sought
