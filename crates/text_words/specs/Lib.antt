-- The words of documents 01 and 02 for each refusal number.
pub mod Refusals
pub mod Saying
pub mod Rows
