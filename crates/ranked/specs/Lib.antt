-- Ranked places.
pub mod Ranked
