-- What the calls around a line answer to C, and what they leave in memory that was lent to them.
pub mod Calls
pub mod Resistances
