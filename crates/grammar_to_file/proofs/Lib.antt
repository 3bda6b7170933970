pub mod Records
pub mod RecordTests
pub mod FileHolds
pub mod RecordAgain
pub mod StoredFile
pub mod GrammarsAndFiles
