-- 02, 2026-10: the contents kept in columns: what the five lists are, what is looked up in them, and their record for C.
pub mod Columns
pub mod Lookups
pub mod Record
pub mod Shown
pub mod Making
pub mod Scanning
