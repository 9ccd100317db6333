-- What follows from the definitions, invariants of loops among it.
pub mod Parts
pub mod Leading
pub mod Trying
pub mod NewBundle
pub mod Answers
pub mod Proper
