-- Components by parents that never rise, and what the walk over the marks and the sums per component give.
pub mod Parents
pub mod Gaps
pub mod Walks
pub mod Back
pub mod Walking
pub mod Lists
pub mod Shows
