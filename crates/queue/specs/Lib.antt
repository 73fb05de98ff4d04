-- The queue of the rows that have one erasure left.
pub mod Ones
pub mod Queue
pub mod RowQueue
