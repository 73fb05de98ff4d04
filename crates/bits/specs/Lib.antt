-- The mark bits: set, cleared and read as words, and the laws of these.
pub mod Bits
pub mod MarkedLaws
pub mod MarkedOnce
pub mod Lowest
pub mod Words
pub mod Short
