pub mod Table
pub mod Passed
pub mod Calendar
pub mod NextDate
