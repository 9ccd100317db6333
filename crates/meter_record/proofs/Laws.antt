-- What follows from the definitions, invariants of loops among it.
pub mod Recalling
pub mod RecordLaws
pub mod Keeping
pub mod Reaching
