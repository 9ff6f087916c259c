pub mod Running
pub mod Stopping
