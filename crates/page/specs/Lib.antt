pub mod Entries
pub mod ReadBack
pub mod Cases
pub mod Inner
