pub mod CourseLaws
pub mod Theorems
pub mod TraceLaws
pub mod WorksLaws
