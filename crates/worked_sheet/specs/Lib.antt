-- 01's sample job and its sheet, in the specimen table: the statement (Table) and its proof (Proofs).
pub mod Table
