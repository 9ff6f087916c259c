pub mod Known
pub mod Agreeing
pub mod Slots
pub mod Settings
