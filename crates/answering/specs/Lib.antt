pub mod Changes
pub mod Serials
