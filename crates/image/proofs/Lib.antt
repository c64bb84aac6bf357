pub mod Parts
pub mod Regions
pub mod Writers
pub mod Whole
pub mod Bytewise
pub mod Moves
