-- The state of a job, what refuses a command on it, and the laws of the functions on its buffers.
pub mod State
pub mod Refusing
pub mod RefusingLaws
