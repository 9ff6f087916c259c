pub mod Store
pub mod Steps
pub mod Frames
pub mod Parents
