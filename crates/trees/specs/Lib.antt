pub mod Tree
pub mod Context
pub mod Listing
pub mod Legal
pub mod Preorder
