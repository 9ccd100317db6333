-- What follows from the definitions, the invariant of the walk among it.
pub mod Judging
pub mod Telling
pub mod Walking
pub mod Answering
pub mod Meaning
pub mod Example
pub mod AsBefore
