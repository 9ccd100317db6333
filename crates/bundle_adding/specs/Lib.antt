-- 01, "The run bundle", adding and inserting: what they answer, what they leave, and what follows of the bundle that is left.
pub mod Adding
pub mod Inserting
pub mod Shown
pub mod Writing
pub mod Opening
