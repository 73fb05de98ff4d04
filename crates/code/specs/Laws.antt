-- The laws behind the theorems.
pub mod Forest
pub mod Labels
pub mod Roots
pub mod MarksLaws
pub mod Spanning
pub mod Closings
pub mod ParityCount
