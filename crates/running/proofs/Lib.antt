pub mod Answers
pub mod Ahead
pub mod ChildRows
pub mod NodeBytes
pub mod Nodes
pub mod Tables
pub mod Parts
pub mod Stopping
