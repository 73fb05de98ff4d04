-- The laws of runs.
pub mod Computing
pub mod Fronts
pub mod Copying
pub mod Carried
