-- What document 02 says, in 2026-08, of an energy value turned into an M-Bus entry.
pub mod Energies
