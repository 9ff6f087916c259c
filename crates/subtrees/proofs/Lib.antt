pub mod Arrays
pub mod Numbers
pub mod Orders
pub mod Entering
pub mod Collecting
pub mod Listed
pub mod Frames
