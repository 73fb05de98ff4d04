-- What the walk that collects the fetch list has found so far.
pub mod Collecting
