pub mod Trees
pub mod Forests
pub mod Legal
pub mod Listing
pub mod FirstListing
pub mod ListingRefusal
pub mod Preorder
pub mod Suffixes
