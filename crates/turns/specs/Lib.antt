-- A job: its sheet, and what one turn does.
pub mod Sheets
pub mod Turns
