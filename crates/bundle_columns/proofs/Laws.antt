-- What follows from the definitions, invariants of loops among it.
pub mod Numbers
pub mod Fields
pub mod Scanning
pub mod Looking
pub mod Turning
pub mod Whole
pub mod AsBefore
