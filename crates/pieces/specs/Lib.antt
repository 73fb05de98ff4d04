-- The pieces of a line, a number's digits, and the laws of each.
pub mod Pieces
pub mod DecimalLaws
pub mod DigitLoops
pub mod PiecesLaws
pub mod ShortLaws
pub mod ReadBack
