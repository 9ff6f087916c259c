pub mod Reading
pub mod Totalling
pub mod Numbering
pub mod Changing
