-- The lent state: what refuses it, and what a state that passes has.
pub mod Standing
pub mod StandingLaws
