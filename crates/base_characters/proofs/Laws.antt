-- What follows from the definitions, invariants of loops among it.
pub mod ParityLaws
pub mod PairLaws
pub mod PartLaws
pub mod SumLaws
pub mod StoreLaws
pub mod FlagLaws
pub mod WalkLaws
pub mod GatherLaws
pub mod CharacterLaws
pub mod Folding
pub mod FlipLaws
pub mod Codes
pub mod Sent
pub mod Closing
pub mod Carrying
