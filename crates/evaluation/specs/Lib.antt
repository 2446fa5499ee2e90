-- What is kept of a function over each first coordinate.
pub mod Parts
