-- What document 02 asks, in 2026-04, of two points in time: how far apart they are.
pub mod Days
