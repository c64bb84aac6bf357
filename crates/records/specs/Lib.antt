pub mod Bytes
pub mod Records
pub mod Inner
