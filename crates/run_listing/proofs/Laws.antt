-- What follows from the definitions, invariants of loops among it.
pub mod Writing
pub mod LineLaws
pub mod Shown
pub mod Longest
