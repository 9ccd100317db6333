-- What follows from the definitions, invariants of loops among it.
pub mod Laid
pub mod Moving
pub mod Without
pub mod Drawing
pub mod Placing
pub mod NewBundle
pub mod Shown
pub mod Proper
pub mod Going
