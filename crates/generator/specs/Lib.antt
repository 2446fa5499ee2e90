-- What the arrays of the rows hold.
pub mod Rows
pub mod Advance
