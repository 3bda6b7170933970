pub mod Notes
pub mod Passed
pub mod Says
