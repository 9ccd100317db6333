-- 01, "The simulated meter": its rules, and what they make of whole histories.
pub mod Meters
pub mod Histories
pub mod Changes
pub mod Proper
