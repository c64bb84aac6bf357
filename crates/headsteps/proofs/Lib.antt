pub mod Heads
pub mod Parts
