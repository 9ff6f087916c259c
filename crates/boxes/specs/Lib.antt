pub mod ByteOrder
pub mod Boxes
pub mod Samples
