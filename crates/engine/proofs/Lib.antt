-- The laws of the engine's loops and states.
pub mod Laws
pub mod States
pub mod Runs
