pub mod Renaming
pub mod Numbering
pub mod Written
pub mod Made
