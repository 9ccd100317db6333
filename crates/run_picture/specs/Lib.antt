-- "What happened in a run": the picture of a run bundle, as SVG text.
pub mod Timing
pub mod Pages
pub mod Elements
pub mod Words
pub mod Pictures
pub mod Shown
