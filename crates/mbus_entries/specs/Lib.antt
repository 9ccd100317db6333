-- What the functions of this crate answer.
pub mod Trying
pub mod Walking

-- Laws about them.
