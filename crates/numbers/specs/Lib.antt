-- What the C entry points promise.
pub mod Entries
pub mod EntryLaws
pub mod Meanings
