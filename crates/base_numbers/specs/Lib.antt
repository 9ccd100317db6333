-- Numbers low byte first.
pub mod Numbers
pub mod Records
pub mod TwosComplement
pub mod Rounding
