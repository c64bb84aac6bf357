pub mod Saying
pub mod Loads
pub mod Pages
pub mod Asking
pub mod Ends
