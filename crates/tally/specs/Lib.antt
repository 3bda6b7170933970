pub mod Tallies
pub mod Answers
