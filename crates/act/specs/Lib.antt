-- Single commands of a job: what each means, and the state over lent buffers.
pub mod Meaning
pub mod Acts
