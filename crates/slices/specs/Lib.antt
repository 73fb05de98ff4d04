-- Slices cleared, copied and tested for zeros: the definition and the laws of the loops.
pub mod Zeros
pub mod Copying
