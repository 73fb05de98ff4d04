-- What is turned away: the refusals and their numbers, and tests in their order.
pub mod Refusals
