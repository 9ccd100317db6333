-- 01, "Search".
pub mod Searching
pub mod Ending
