pub mod Recognizer
pub mod Ranks
pub mod RanksAgree
pub mod Examples
pub mod Numbered
