-- Walking a cycle by the tallies of its rows, and the cycle that a closing place makes.
pub mod Walks
pub mod Shows
