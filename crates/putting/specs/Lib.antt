-- A line on the sheet.
pub mod Putting
pub mod PutLaws
