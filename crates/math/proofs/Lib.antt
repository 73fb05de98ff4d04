pub mod Gcd
pub mod GcdLaws
pub mod Residues
