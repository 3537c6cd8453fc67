-- The demands hold, with the theorems beside them.
pub mod Logic
pub mod Bounds
pub mod Guards
pub mod Fields
pub mod Demands
