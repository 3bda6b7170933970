pub mod Chains
pub mod Layout
pub mod Rules
