-- What Best answers, and its stages.
pub mod Outcomes
pub mod Stages
pub mod Given
