-- What the functions' proofs cite, and the cases.
mod Answers
mod Stops
mod Few
mod Jobs
mod Whole
pub mod Cases
