pub mod Numbers
pub mod Picked
pub mod Steps
pub mod Tables
