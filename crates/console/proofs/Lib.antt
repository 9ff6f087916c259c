pub mod Input
pub mod Printed
pub mod Feeding
pub mod Moves
pub mod Parts
pub mod Listings
pub mod Machine
