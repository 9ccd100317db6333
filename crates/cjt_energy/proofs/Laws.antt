-- What follows from the definitions.
pub mod Energies
pub mod Meaning
