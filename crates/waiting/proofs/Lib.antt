pub mod Loops
pub mod Naming
