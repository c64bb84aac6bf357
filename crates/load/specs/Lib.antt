pub mod Load
pub mod Entry
pub mod AcceptedLines
pub mod Cases
pub mod Inner
