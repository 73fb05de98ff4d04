-- The commands of a job, as bytes.
pub mod Commands
pub mod CommandLaws
