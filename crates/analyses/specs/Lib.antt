pub mod Tests
pub mod Answers
