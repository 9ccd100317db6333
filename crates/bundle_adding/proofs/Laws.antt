-- What follows from the definitions, invariants of loops among it.
pub mod AddLaws
pub mod Shown
pub mod Writing
pub mod Grown
pub mod AddingLaws
pub mod Trying
pub mod Opening
pub mod Opened
pub mod InsertingLaws
pub mod Growing
pub mod Inserted
pub mod Commuting
pub mod Example
