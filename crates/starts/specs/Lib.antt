-- The rows to start from, by the marks.
pub mod Starts
