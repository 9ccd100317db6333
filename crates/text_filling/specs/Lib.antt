-- What is written where a text is put into lent memory: numbers in decimal, texts with holes, and what has no room.
pub mod Decimals
pub mod Holes
pub mod Putting
pub mod Texts
