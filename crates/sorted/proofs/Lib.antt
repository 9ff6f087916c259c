pub mod Compared
pub mod Searched
pub mod Placed
pub mod Inserted
pub mod Overwritten
pub mod Slots
pub mod Stepping
