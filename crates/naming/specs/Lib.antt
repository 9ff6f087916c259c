pub mod Classes
pub mod Parents
pub mod Known
pub mod Choice
pub mod Settings
pub mod Search
