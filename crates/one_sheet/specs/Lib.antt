-- A job has exactly one sheet, however its bytes are cut.
pub mod OneSheet
pub mod SomeSheet
pub mod Parts
pub mod ParsedLaws
pub mod Outcomes
pub mod SomeFigures
pub mod SomeRecovery
pub mod Begins
pub mod Performed
