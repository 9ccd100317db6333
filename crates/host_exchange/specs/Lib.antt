-- The exchange for C: what each call answers and leaves.
pub mod Calls
