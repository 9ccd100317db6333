-- What follows from the definitions, invariants of loops among it.
pub mod DataLines
pub mod Summing
pub mod Marking
pub mod Looking
pub mod Putting
pub mod Answering
pub mod Pairs
pub mod Parts
pub mod Meaning
pub mod Naming
