-- What follows from the definitions.
pub mod Years
pub mod NextDay
