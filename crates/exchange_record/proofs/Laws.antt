-- What follows from the definitions, invariants of loops among it.
pub mod ExchangeLaws
pub mod Reached
pub mod Runs
