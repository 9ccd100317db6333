-- 01, "The bench host": the number of a line.
pub mod Numbers
