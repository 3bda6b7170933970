pub mod Limits
pub mod Counted
pub mod Tables
pub mod EntryCall
pub mod Answered
