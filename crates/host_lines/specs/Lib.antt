-- What the calls on lines answer to C, and what they leave in memory that was lent to them.
pub mod Calls
