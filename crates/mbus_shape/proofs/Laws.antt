-- What follows from the definitions, invariants of loops among it.
pub mod ShapeLaws
pub mod LeftLaws
pub mod WholeLaws
pub mod FirstLaws
