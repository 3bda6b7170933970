pub mod Numbered
pub mod RecordLaws
