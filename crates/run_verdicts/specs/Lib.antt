-- "What happened in a run": the verdict of each row of a run bundle, by the exchange of its position.
pub mod Verdicts
pub mod Words
pub mod Judging
pub mod Answering
pub mod Walking
pub mod Shown
pub mod Example
