-- What is told to C of a capture, and what is left in memory that was lent.
pub mod Calls
pub mod Unmarking
