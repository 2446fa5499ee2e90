-- What Correct answers and leaves, the places that are kept, and what they decide.
pub mod Outcomes
pub mod Stages
pub mod Kept
pub mod Runs
pub mod Located
