-- What follows from the definitions, invariants of loops among it.
pub mod Times
pub mod Gaps
pub mod Wakes
