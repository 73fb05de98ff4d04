-- The specimen table of document 01: its statement (Examples), tests that compute (ProofTests), and its proof (Proofs).
pub mod Examples
pub mod ProofTests
