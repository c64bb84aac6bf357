pub mod Listed
pub mod Inner
