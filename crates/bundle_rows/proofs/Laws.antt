-- What follows from the definitions, invariants of loops among it.
pub mod Lists
pub mod RowLaws
pub mod CharacterLaws
