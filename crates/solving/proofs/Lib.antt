-- The laws of what operations over places solve for.
pub mod Link
pub mod Free
pub mod Gathered
pub mod Arranged
pub mod Restored
pub mod Interpolant
pub mod Chains
