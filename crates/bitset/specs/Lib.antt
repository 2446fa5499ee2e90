-- What the functions on bit sets give.
pub mod Places
pub mod Cases
