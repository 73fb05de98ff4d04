-- Settling one erasure, adding the values, and the test for what is left.
pub mod Settling
pub mod Takes
pub mod Fill
