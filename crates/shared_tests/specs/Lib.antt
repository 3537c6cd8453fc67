-- What the tests that calls share answer, by the definitions of `register`.
pub mod Shared
