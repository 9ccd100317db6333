-- The picture of a run for C: what the header's function answers and leaves.
pub mod Pictured
