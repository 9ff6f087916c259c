pub mod Report
pub mod Printing
