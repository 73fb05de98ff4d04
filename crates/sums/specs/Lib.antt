-- The row sums of a block, section by section.
pub mod SumLaws
