pub mod Transitions
pub mod Entries
pub mod Views
pub mod Searching
