-- The proofs of the statements: Laws.
pub mod Laws
