-- The simulated meter for C: what each call answers and leaves.
pub mod Calls
pub mod Kept
