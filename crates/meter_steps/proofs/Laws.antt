-- What follows from the definitions, invariants of loops among it.
pub mod Shown
pub mod HistoryLaws
pub mod Written
