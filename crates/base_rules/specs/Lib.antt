-- What all rules are written with: lists, answers and refusals, bytes.
pub mod Lists
pub mod Answers
pub mod Bytes
pub mod Each
pub mod Shown
