-- What the code of a Bind's type is asked.
pub mod BindResult
