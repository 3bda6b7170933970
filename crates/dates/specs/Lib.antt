pub mod Dates
pub mod WideDates
pub mod Examples
