pub mod Running
pub mod Checked
