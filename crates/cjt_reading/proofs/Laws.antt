-- What follows from the definitions, invariants of loops among it.
pub mod PartLaws
pub mod FrameLaws
pub mod SkipLaws
pub mod TakingLaws
