pub mod Order
pub mod Components
pub mod Doubles
pub mod Examples
