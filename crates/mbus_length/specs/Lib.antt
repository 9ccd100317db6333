-- 01, "Refusal numbers", 2 to 6: how many characters a line has, by the first of them.
pub mod Lengths
