-- The runs of message places: what they are, and the laws by which they are computed and copied.
pub mod Runs
pub mod Laws
