-- Why a block is refused.
pub mod Explains
