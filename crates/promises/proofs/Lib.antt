pub mod Building
pub mod MarksOf
pub mod Numbers
pub mod Once
pub mod Theorems
