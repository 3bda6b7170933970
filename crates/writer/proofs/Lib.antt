pub mod Content
pub mod Checks
pub mod Outcome
