pub mod Queued
pub mod Names
pub mod TreeRun
pub mod RunCode
pub mod Spelling
pub mod TreeCalls
pub mod Conversion
