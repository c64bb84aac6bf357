pub mod Holding
pub mod NodeLaws
pub mod QueueRecords
pub mod QueueHeld
pub mod ResultLaws
pub mod Serving
pub mod Working
