pub mod Once
pub mod PerformLaws
