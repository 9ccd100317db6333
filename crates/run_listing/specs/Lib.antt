-- What document 01 says of the listing of a run bundle.
pub mod Listings
pub mod Writing
pub mod Shown
pub mod LineColumn
