pub mod Lines
pub mod Transcript
pub mod Inner
