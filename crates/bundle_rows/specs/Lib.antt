-- What document 01 says of the contents rows of a run bundle, of the ranges of their fields, and of the bodies that they name.
pub mod Fields
pub mod Rows
pub mod Lists
