-- 02, 2026-14: both ends of the line. The line between them, what is asked of it, and what then holds.
pub mod Line
pub mod Hypotheses
pub mod Statements
pub mod Turning
