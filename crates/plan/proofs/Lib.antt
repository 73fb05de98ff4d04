-- What several functions' proofs share.
pub mod Answers
pub mod PlanLaws
