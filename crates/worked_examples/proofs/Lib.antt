pub mod Proofs
pub mod Steps
