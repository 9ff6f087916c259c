pub mod Counting
pub mod Products
pub mod Summing
pub mod Marking
pub mod Fitting
