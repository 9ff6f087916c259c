pub mod Comparing
pub mod Reading
pub mod Exchanged
pub mod Swapping
pub mod Inserting
pub mod Arranging
pub mod Nodes
pub mod Padded
