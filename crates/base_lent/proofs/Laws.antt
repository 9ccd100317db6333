-- What follows from the definitions, invariants of loops among it.
pub mod Copying
pub mod LentLaws
pub mod Same
pub mod PieceLaws
pub mod Recorded
