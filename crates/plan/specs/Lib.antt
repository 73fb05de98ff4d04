-- What a plan is, what refuses one, and the plans that the constructors make.
pub mod Layout
pub mod GoodPlan
pub mod Plans
