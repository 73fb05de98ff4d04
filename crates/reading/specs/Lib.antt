-- A job read in parts: the cursor.
pub mod Cursors
pub mod CursorLaws
