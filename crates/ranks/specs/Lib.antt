pub mod Prediction
pub mod Queue
pub mod Held
pub mod Daughters
pub mod Moves
pub mod Table
pub mod Step
