-- What two sections share and the most that is shared (Divisors), and the laws of it.
pub mod Divisors
pub mod DivisorsLaws
