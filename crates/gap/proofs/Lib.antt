-- Laws of the gap.
pub mod Least
