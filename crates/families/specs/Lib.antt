-- The condition of the powers.
pub mod Families
