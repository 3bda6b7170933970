pub mod Ready
pub mod Visit
pub mod Rounds
pub mod Outcome
