-- Whole jobs and jobs read in parts.
pub mod Running
pub mod Theorems
pub mod BeginsLaws
pub mod RunningLaws
