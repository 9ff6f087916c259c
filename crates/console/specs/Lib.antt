pub mod Input
pub mod Console
pub mod Buffers
pub mod Machine
