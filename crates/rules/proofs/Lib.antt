-- The code of each rule meets its contract.
pub mod Fronts
pub mod Kepts
pub mod Scopes
pub mod Variables
pub mod Atoms
pub mod Enters
