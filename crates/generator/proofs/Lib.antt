-- Laws of the rows.
pub mod Sums
pub mod Turns
pub mod Symbols
pub mod Adding
pub mod Words
mod Progress
