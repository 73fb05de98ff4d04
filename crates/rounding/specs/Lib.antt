-- The rounds counted through the queue: one row, one round, all rounds.
pub mod OneRow
pub mod OneRound
pub mod AllRounds
