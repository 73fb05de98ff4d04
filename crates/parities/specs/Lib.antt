-- The parity places settled.
pub mod Settling
