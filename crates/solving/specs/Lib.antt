-- What operations over places test, and what they solve for.
pub mod Tests
pub mod Given
pub mod Restored
