pub mod Places
pub mod Entries
pub mod Passes
pub mod Picks
pub mod Numbers
pub mod Tables
pub mod Rebuilt
