-- Laws of the order.
pub mod Arranged
