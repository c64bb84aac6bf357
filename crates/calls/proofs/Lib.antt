pub mod Accepted
pub mod Admitting
pub mod Claims
pub mod Room
pub mod Refusing
