-- Sections that stand (Sections), what the functions keep of the differences they met (Differences), and the laws of each.
pub mod Sections
pub mod Differences
pub mod SectionsLaws
pub mod DifferencesLaws
