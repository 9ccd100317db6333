-- 02, 2026-01: both interfaces on one position.
pub mod Interfaces
pub mod Stretches
