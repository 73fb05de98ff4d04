-- What recover goes by: what an attempt by peeling shows.
pub mod Attempts
