pub mod Pairs
pub mod Whole
pub mod Printing
