-- When a block is whole.
pub mod Whole
