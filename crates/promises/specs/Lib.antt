-- What recover, encode and message_of promise, how an answer keeps it, and what follows from it.
pub mod Promises
