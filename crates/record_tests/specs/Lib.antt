pub mod RecordTests
