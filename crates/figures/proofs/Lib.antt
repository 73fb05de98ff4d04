pub mod AnswersLaws
pub mod Once
