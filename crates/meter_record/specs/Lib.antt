-- The record of a simulated meter, and which meters have one.
pub mod MeterRecords
pub mod Leaving
