-- What follows from the definitions.
pub mod Lines
pub mod Meaning
