-- What states the contracts of functions that no host in C calls; a reader of the promises needs none of it.
pub mod Serving
pub mod Frames
pub mod Feeding
