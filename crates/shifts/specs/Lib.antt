-- The shifts of a plan: the arrays that hold them.
pub mod Shifts
pub mod ShiftsLaws
