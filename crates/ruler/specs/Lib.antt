-- The rulers, and their laws.
pub mod Ruler
