pub mod Ranges
pub mod Answers
