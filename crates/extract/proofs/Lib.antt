-- The call meets its contract; the first two demands for it; extracts in lists of calls; the guards.
pub mod Extracts
pub mod Demands
pub mod Histories
pub mod Guards
