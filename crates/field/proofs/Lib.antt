-- The laws of the fields, from exclusive or upwards.
pub mod Sum
mod Horner
mod Polynomial
pub mod Ring
mod Remainders
pub mod Laws
mod Generator
pub mod Computed
pub mod Galois
pub mod Lookup
mod Pastes
pub mod Opened
