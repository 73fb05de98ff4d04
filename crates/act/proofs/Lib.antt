pub mod ActLaws
pub mod ActsOnce
pub mod MeaningOnce
pub mod RecoveringLaws
pub mod StateLaws
