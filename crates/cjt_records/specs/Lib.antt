-- The record of a CJ/T 188 telegram.
pub mod CjtRecords
pub mod Sizes
