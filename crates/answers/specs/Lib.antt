-- The answers of recover, encode, message_of and fetch: their numbers and values.
pub mod Answers
