-- Numbers between texts.
pub mod Between
