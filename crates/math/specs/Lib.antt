-- The mathematics below the code's theory, with no word of the recorder: tests, members of lists, exclusive-or sums, divisors, residues.
pub mod Tests
pub mod Members
pub mod MembersLaws
pub mod Pigeonhole
pub mod Padded
pub mod Xor
pub mod Sums
pub mod SumsLaws
pub mod Gcd
