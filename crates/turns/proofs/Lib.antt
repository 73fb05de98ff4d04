pub mod TurnLaws
pub mod TurnsOnce
