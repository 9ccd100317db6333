-- What follows from the definitions, invariants of loops among it.
pub mod Rows
pub mod TimingLaws
pub mod PageLaws
pub mod DrawingLaws
pub mod Told
pub mod Longest
pub mod Drawn
pub mod Words
pub mod Wording
pub mod Meaning
