pub mod Cuts
pub mod Fronts
pub mod Texts
pub mod Answers
pub mod Kept
