pub mod Reader
pub mod Checks
pub mod ReaderMeaning
