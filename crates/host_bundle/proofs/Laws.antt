-- What follows from the definitions, invariants of loops among it.
pub mod Lent
pub mod Rows
pub mod Contents
pub mod Salvaging
