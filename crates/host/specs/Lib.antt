pub mod Entries
pub mod Sequences
pub mod Inner
