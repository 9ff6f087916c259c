pub mod Limits
pub mod Tables
pub mod Sums
pub mod Depths
pub mod Accepting
pub mod Passed
