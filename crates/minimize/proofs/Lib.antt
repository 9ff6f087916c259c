pub mod Names
pub mod Entries
pub mod Arguments
pub mod Ready
pub mod Ordering
pub mod Renumbering
pub mod Tables
pub mod Whole
