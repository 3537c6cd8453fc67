-- What the code that moves terms is asked and what it ensures, by the definitions of `logic`.
pub mod Shift
pub mod Fill
