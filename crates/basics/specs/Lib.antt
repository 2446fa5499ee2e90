-- The definitions that every crate shares.
pub mod Outcome
pub mod Lists
pub mod Bits
pub mod SetBits
