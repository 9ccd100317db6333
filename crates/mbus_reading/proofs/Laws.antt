-- What follows from the definitions, invariants of loops among it.
pub mod TakingLaws
pub mod FewLaws
pub mod BodyLaws
