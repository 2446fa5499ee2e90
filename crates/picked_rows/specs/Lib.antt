-- What the working space holds of the rows.
pub mod Stored
