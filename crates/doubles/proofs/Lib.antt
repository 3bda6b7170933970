pub mod Orders
pub mod Sequences
pub mod Shape
pub mod Agreement
pub mod Back
pub mod RefusalTen
pub mod Reordering
pub mod Examples
