-- The code. First what a reader must believe, in the order of document 01; then the theorems; then their proofs, in Laws.
pub mod Places
pub mod Codewords
pub mod Checks
pub mod Marks
pub mod Cycles
pub mod Components
pub mod Messages
pub mod FetchList
pub mod Figures
pub mod Rounds
pub mod Laws
