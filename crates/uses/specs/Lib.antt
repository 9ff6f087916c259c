pub mod Frames
pub mod Uses
pub mod Spans
pub mod Walks
pub mod Settings
