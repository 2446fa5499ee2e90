-- What the operation works on.
pub mod Given
