pub mod LinesLaws
