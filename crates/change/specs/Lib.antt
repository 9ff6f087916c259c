pub mod Classes
pub mod Changing
pub mod Given
pub mod Between
pub mod Sizes
