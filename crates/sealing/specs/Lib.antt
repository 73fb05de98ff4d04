-- The laws behind encode and message_of.
pub mod Reading
pub mod Passing
