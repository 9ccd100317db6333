-- What the search of both captures answers to C, and what it leaves in memory that was lent to it.
pub mod Finding
