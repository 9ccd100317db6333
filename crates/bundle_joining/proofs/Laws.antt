-- What follows from the definitions, invariants of loops among it.
pub mod Rows
pub mod Writing
pub mod Choosing
pub mod ChoosingShown
pub mod ChoosingProper
pub mod ByTime
pub mod Joining
pub mod JoinShown
pub mod JoinProper
pub mod Parts
