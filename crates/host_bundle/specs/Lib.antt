-- What the functions on a run bundle answer to C, and what they leave in memory that was lent to them.
pub mod Lent
pub mod Bundled
pub mod Rows
pub mod Salvaging
pub mod Joining
