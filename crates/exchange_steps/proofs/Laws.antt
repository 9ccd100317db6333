-- What follows from the definitions, invariants of loops among it.
pub mod Steps
pub mod Kept
pub mod Endings
pub mod Theorems
pub mod Values
