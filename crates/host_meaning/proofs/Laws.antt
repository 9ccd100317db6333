-- What follows from the definitions.
pub mod MeaningLaws
