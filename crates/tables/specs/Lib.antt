-- The row tables of a block with erasures, and what it is to settle erasures.
pub mod Picture
pub mod Spots
pub mod PictureLaws
pub mod Sizes
pub mod Beside
pub mod Sweeps
pub mod Zeros
pub mod StuckLaws
pub mod Singles
pub mod Counting
pub mod WordWalk
pub mod Scan
pub mod Stretches
