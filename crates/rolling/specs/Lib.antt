-- Request S-5, the rolling day mean: over the list of all hours so far, in a running state, and in the state's 64 bytes.
pub mod Runs
pub mod State
pub mod Bytes
pub mod Cases
pub mod Steps
