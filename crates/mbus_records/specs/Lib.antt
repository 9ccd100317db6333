-- Records: values as bytes of a fixed size.
pub mod Telegrams
pub mod Sizes
