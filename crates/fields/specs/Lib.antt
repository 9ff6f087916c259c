pub mod Fields
pub mod View
pub mod Entries
