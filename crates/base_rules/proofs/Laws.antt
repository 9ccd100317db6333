-- What follows from the definitions, and what a computed test tells.
pub mod Answers
pub mod AnswerLaws
pub mod Tests
pub mod TestLaws
pub mod ListLaws
pub mod ByteLaws
