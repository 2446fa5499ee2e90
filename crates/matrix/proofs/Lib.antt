-- The laws of Matrix.
pub mod Joined
pub mod Marks
pub mod Theory
