pub mod Begin
pub mod Front
pub mod Behind
pub mod Onward
pub mod Applying
