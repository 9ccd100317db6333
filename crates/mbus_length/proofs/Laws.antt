-- What follows from the definitions.
pub mod Wholes
pub mod Beginnings
pub mod Meaning
