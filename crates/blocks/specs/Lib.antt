-- What Plain, Pack and Unpack answer.
pub mod Outcomes
