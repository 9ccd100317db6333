-- The Gregorian calendar.
pub mod Months
