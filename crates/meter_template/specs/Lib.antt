-- 01, "The simulated meter": the data template of a meter and its pairs of totals.
pub mod Templates
