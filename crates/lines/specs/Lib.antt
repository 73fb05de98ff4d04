-- The lines of the sheet, their laws, and how long they are.
pub mod Lines
