pub mod Labels
pub mod Bytes
pub mod Refusals
