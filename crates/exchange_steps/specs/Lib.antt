-- Document 01, "The exchange", and 02, 2026-09: the steps, and histories of steps.
pub mod Steps
pub mod Histories
pub mod Values
