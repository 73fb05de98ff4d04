-- A command performed by its own function: what each needs.
pub mod DispatchLaws
