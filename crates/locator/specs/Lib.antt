-- Rows in arrays, by their defects.
pub mod Arrays
pub mod First
