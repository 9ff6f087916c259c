pub mod Packed
pub mod Places
pub mod Seeking
pub mod Heads
pub mod Slots
