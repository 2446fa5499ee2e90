-- The laws of the functions on bit sets, and known cases.
pub mod Places
mod Cases
