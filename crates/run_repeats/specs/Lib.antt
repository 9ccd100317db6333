-- Rows of a run bundle that repeat a reading: which rows give one, when two give the same, and the lowest earlier row that gave it.
pub mod Repeats
pub mod Marks
pub mod Meaning
