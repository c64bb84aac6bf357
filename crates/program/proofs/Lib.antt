pub mod Signs
pub mod Serving
pub mod Framing
pub mod LineCases
pub mod Rooms
pub mod Determined
pub mod EveryInput
