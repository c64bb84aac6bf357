pub mod Values
pub mod Inner
