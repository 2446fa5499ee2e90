-- The theory of functions on a curve, from weights and points to the pair and what it decides.
pub mod Weights
pub mod Points
pub mod Function
pub mod Conjugate
pub mod Quotient
pub mod Descent
pub mod Products
pub mod Zeros
pub mod Padding
pub mod Kernel
pub mod Pair
pub mod Steps
pub mod Interpolate
pub mod Values
