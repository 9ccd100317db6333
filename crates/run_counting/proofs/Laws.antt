-- What follows from the definitions, the invariant of the walk among it.
pub mod Hearing
pub mod Numbering
pub mod Walking
pub mod Answering
pub mod Exchanges
pub mod Others
pub mod Meaning
