-- What follows from the definitions, invariants of loops among it.
pub mod SearchLaws
pub mod Walks
pub mod Meaning
