-- What follows from the definitions, invariants of loops among it.
pub mod Walks
pub mod RowRules
pub mod Walking
pub mod Opened
pub mod Accepted
pub mod RecordLaws
pub mod HoldingLaws
pub mod Example
pub mod HandingLaws
pub mod BodyLaws
pub mod RowsExample
