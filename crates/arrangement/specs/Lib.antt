-- What the order is.
pub mod Arranged
