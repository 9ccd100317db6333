-- The shape of a line, by the rules 4 to 9.
pub mod Shapes
pub mod Counts
pub mod First
