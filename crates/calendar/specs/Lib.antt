pub mod Calendar
pub mod Shown
