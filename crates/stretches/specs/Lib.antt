-- Stretches of mark bits: counted and tested, and the laws of these.
pub mod Stretches
pub mod ByteLaws
pub mod StretchLaws
