pub mod Flat
pub mod Inner
