-- The laws of the rolling mean.
mod Totals
pub mod InBytes
mod Steps
pub mod Runs
pub mod Reached
pub mod Kept
pub mod Cases
