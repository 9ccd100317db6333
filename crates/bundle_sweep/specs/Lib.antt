-- 02, 2026-12: room in a long run: a sweep over the caller's buffer.
pub mod Sweeping
pub mod Shown
pub mod Writing
