-- What follows from the definitions, invariants of loops among it.
pub mod Errors
