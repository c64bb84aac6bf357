-- What states the contracts of functions that no host in C calls; a reader of the promises needs none of it.
pub mod Taking
pub mod Tests
pub mod Reads
