pub mod Returned
pub mod Typed
