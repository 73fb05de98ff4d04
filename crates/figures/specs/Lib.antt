-- What `figures` answers (Answers), and the laws of it and of the distance.
pub mod Answers
pub mod DistanceLaws
