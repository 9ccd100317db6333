-- What follows from the definitions, and how the code works digits out in one word.
pub mod DigitLaws
pub mod GatherLaws
pub mod WordLaws
pub mod JoinLaws
pub mod PackingLaws
