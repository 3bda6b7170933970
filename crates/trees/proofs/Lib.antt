pub mod Places
pub mod Standing
pub mod Nodes
