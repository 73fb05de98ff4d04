-- The fetch list put from its bits, and that 0D keeps its meaning.
pub mod Places
pub mod FetchingLaws
