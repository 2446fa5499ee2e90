-- Laws of the rows at picked places.
pub mod Few
pub mod Stored
pub mod Rows
pub mod Difference
