-- The host's number of a kind, read back.
pub mod Kinds
