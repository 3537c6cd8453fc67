-- What is proved: of the logic, of refusals, by guards, and all of it with the demands. A reader begins with Demands.
pub mod Logic
pub mod Bounds
pub mod Guards
pub mod Demands
