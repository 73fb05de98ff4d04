-- A job read in parts: the commands at hand, how far the job has come, what the library does with it, and that what is written is the sheet.
pub mod Course
pub mod Streams
pub mod Works
pub mod Trace
