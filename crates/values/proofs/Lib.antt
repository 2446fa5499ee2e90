-- The laws of the passes and of a step.
pub mod Sweeps
pub mod Steps
pub mod Runs
