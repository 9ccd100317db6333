-- What follows from the definitions.
pub mod CjtCallLaws
pub mod CjtReadLaws
