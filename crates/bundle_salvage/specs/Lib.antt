-- 02, 2026-11: a bundle cut short, salvaged into a second buffer.
pub mod Salvaging
pub mod Shown
pub mod Writing
