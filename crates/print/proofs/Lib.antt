pub mod Entries
pub mod ReadBack
pub mod Listing
pub mod Refusals
