-- The rows of one position as a bundle of their own, and the rows of two bundles by time as one.
pub mod Writing
pub mod Choosing
pub mod Measuring
pub mod ChoosingShown
pub mod Joining
pub mod Parts
pub mod JoinShown
pub mod Turns
