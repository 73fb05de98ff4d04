-- Settling erasures row by row, through a queue of the rows that have one left.
pub mod Peels
