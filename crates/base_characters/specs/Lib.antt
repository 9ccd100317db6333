-- What one walk over characters gathers.
pub mod Gathering
pub mod Characters
pub mod Flips
pub mod Closing
pub mod Carrying
