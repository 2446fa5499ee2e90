-- The laws of two steps at once.
pub mod Turns
mod Runs
