-- Laws of ranked places.
pub mod Inserted
