pub mod Located
pub mod Standing
