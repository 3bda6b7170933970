pub mod Passed
pub mod Between
pub mod Before
pub mod Kept
pub mod Lost
pub mod OldFiles
pub mod OwnAnswers
