pub mod Card
pub mod Lines
pub mod Highest
pub mod Answers
