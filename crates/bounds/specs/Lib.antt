-- The bounds of a plan.
pub mod Bounds
