-- From a serial port to characters: how a port marks what it received, and what is made of marked bytes.
pub mod Marks
pub mod Unmarking
pub mod Pieces
