pub mod Beside
pub mod Bounds
pub mod Counting
pub mod Scan
pub mod Spots
pub mod Stretches
pub mod WordWalk
