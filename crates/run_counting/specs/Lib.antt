-- What document 02 says, in 2026-04, of the answers that count: which rows they are, and what a walk along the rows holds on to.
pub mod Counting
pub mod Ears
pub mod Shown
pub mod Exchanges
