pub mod Times
pub mod Gaps
pub mod Wakes
