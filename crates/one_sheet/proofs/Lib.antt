pub mod PerformedLaws
pub mod Struck
pub mod StruckText
