-- Laws of Best.
pub mod Beginning
pub mod Words
pub mod Stores
pub mod Testing
