-- What follows from the definitions, invariants of loops among it.
pub mod MarkLaws
pub mod CodeLaws
pub mod TableLaws
