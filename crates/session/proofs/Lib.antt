pub mod Draining
pub mod DrainTurns
pub mod DrainSteps
pub mod DrainLoop
pub mod Taking
pub mod Claiming
pub mod Accepting
