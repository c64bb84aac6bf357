pub mod LongServing
pub mod InputLines
pub mod Framing
pub mod Feeding
pub mod EveryCut
