pub mod Tables
pub mod Rounds
