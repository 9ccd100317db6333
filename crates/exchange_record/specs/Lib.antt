-- The record of an exchange, which exchanges have one, and the record of none.
pub mod Exchanges
pub mod Sizes
