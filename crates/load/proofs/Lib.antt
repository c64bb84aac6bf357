pub mod AcceptedLines
pub mod Cases
pub mod Drawing
pub mod Lengths
pub mod Sorting
pub mod Writing
