-- What the functions on verdicts answer to C, and what they leave in memory that was lent to them.
pub mod Records
pub mod Told
pub mod Repeating
