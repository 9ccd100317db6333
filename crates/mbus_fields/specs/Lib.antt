-- What the fields of a data telegram are read as.
pub mod Fields

-- Laws about them.
