pub mod Joined
pub mod Counted
