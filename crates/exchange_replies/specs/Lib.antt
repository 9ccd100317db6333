-- Which reply fits which request.
pub mod Fits
