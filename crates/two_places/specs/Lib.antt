-- What two places make of the values at once.
pub mod Turns
