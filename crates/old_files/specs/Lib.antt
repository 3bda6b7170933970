pub mod OldFiles
pub mod OwnAnswers
