-- What document 01 says of the run bundle: one module for each thing, in 01's order.
pub mod Walks
pub mod RowRules
pub mod Walking
pub mod Bundles
pub mod Records
pub mod Example
pub mod Handing
pub mod Stretches
