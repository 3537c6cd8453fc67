-- The forms of a desk rule, of a statement for it and of a proof from the two.
pub mod Forms
