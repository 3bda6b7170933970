pub mod Whole
pub mod Printing
