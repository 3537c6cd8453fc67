-- The conversion is right: both ways, and in the place of its refusals.
pub mod Words
pub mod Editions
pub mod Malformed
pub mod Scopes
pub mod Means
pub mod Binders
pub mod Unbound
pub mod Same
pub mod Back
pub mod Refuses
pub mod Laws
pub mod Guards
