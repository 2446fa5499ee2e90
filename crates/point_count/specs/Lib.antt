-- Where a curve can be singular, and how many affine points it can have where it is not.
pub mod Singular
pub mod Bound
