-- What a unit byte means by 01's table of quantities, as C is told it, and the library's version.
pub mod Meanings
pub mod Version
