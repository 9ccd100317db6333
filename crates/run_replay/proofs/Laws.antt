-- What follows from the definitions.
pub mod Telling
pub mod Figuring
pub mod Replaying
