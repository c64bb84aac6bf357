pub mod Runs
pub mod Demand
