-- What follows from the definitions, invariants of loops among it.
pub mod Saying
pub mod Rows
pub mod Blocks
