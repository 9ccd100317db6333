-- Packed digits.
pub mod Digits
