-- The commands that come by the thousand.
pub mod Quick
pub mod QuickLaws
