-- One command of a job over lent buffers: what perform does.
pub mod Performs
