pub mod Page
pub mod Inner
