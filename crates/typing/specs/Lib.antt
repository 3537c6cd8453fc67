-- What the code of the check is asked and what it ensures, by the definitions of `logic`.
pub mod Derive
pub mod Check
